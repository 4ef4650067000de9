pub mod AlikeLemmas
pub mod KindLemmas
