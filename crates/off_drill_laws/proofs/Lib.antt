pub mod RowLemmas
pub mod LeaseLemmas
pub mod FileLemmas
pub mod PacketLemmas
pub mod TurnLemmas
pub mod StageLemmas
pub mod LawLemmas
pub mod AlongLemmas
