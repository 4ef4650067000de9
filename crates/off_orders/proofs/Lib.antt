mod Examples
pub mod ImportLemmas
