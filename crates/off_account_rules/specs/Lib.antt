pub mod Rows
pub mod Changes
pub mod Good
pub mod Migration
