pub mod Columns
pub mod Reading
pub mod Faults
