pub mod OwnLemmas
pub mod StepLemmas
pub mod RunLemmas
pub mod AlikeLemmas
pub mod OtherLemmas
mod Examples
