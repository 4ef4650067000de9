pub mod SortedLemmas
pub mod MemLemmas
