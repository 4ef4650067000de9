pub mod Turns
pub mod Got
pub mod Served
pub mod Answering
pub mod Closed
