pub mod Fault
pub mod Good
pub mod Length
pub mod Place
pub mod Reference
pub mod Table
pub mod Value
