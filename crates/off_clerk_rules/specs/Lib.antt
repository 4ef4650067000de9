pub mod Names
pub mod Faults
pub mod Replies
pub mod Paths
pub mod Fields
pub mod Commands
