pub mod Chain
pub mod ReadLemmas
pub mod StageLemmas
pub mod WalkLemmas
