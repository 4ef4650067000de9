pub mod CaseLemmas
pub mod Chain
pub mod ChoiceLemmas
pub mod GrantLemmas
