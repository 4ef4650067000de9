pub mod EntryLemmas
pub mod MemKeeperLemmas
pub mod PlaceLemmas
pub mod ShelfLemmas
