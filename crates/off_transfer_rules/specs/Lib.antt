pub mod Requests
pub mod View
pub mod Transfers
pub mod Steps
pub mod Ticks
pub mod Words
