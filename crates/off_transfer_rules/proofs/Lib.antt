pub mod PeerLemmas
pub mod KeptLemmas
pub mod TickLemmas
mod Examples
mod FileExamples
