pub mod Users
pub mod Writes
pub mod Kept
pub mod Codes
