pub mod Meeting
pub mod Acknowledging
