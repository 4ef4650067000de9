pub mod Buckets
pub mod Changes
pub mod Codes
pub mod Drops
pub mod Neighbours
