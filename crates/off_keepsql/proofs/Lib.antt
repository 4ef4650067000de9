pub mod EntryCells
pub mod StoredLemmas
pub mod OverLemmas
pub mod SpellLemmas
pub mod CallLemmas
pub mod LawLemmas
pub mod BeginLemmas
