pub mod Untold
pub mod Heard
