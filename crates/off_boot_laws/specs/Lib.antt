pub mod Known
pub mod Went
pub mod Stages
pub mod Waiting
pub mod Boot
pub mod Keeping
pub mod Served
pub mod Between
