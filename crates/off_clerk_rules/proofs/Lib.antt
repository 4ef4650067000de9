pub mod PathLemmas
pub mod BodyLemmas
mod Examples
