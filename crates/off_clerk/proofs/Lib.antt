pub mod ReadBack
pub mod ArrayLemmas
