mod Examples
pub mod FrontLemmas
pub mod GrammarLemmas
pub mod ReadingLemmas
pub mod ShapeLemmas
pub mod WalkLemmas
pub mod WritingLemmas
