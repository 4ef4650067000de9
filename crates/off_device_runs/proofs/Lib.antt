pub mod SeenLemmas
pub mod WriteLemmas
pub mod ReadLemmas
