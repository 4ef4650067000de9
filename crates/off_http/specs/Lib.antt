pub mod Request
pub mod Heard
pub mod Stages
pub mod Reply
