pub mod Rows
pub mod Messages
pub mod Events
pub mod Numbers
pub mod Law
