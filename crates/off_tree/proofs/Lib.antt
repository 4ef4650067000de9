pub mod GoodLemmas
pub mod LengthLemmas
pub mod ReferenceLemmas
pub mod ShapeLemmas
mod TableFacts
