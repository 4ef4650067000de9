pub mod Known
pub mod Stages
pub mod Waiting
pub mod Limit
pub mod Binding
pub mod Keeping
pub mod Served
pub mod Example
