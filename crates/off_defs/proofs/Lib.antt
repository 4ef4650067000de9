pub mod ToldLemmas
pub mod CountLemmas
pub mod KeyLemmas
pub mod EntryLemmas
pub mod TableLemmas
pub mod PlaceLemmas
pub mod ListingLemmas
