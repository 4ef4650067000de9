pub mod Granted
pub mod Limits
pub mod Leaving
pub mod Runs
