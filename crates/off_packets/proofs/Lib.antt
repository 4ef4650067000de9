pub mod PacketLemmas
pub mod Examples
