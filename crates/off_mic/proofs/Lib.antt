pub mod CheckLemmas
mod Examples
pub mod FeedLemmas
pub mod SealLemmas
mod StartedLemmas
pub mod Walked
