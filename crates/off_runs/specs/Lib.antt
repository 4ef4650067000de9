pub mod Runs
pub mod Held
pub mod Codes
pub mod Changes
pub mod Shelf
pub mod Leases
pub mod Reading
