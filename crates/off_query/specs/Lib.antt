pub mod Calls
pub mod Walked
