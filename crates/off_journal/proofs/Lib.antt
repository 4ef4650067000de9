pub mod WriteLemmas
pub mod Keeping
pub mod PayloadLemmas
pub mod Opening
pub mod Gates
pub mod Walk
pub mod LawLemmas
