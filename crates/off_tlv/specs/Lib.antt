pub mod Fault
pub mod Front
pub mod Grammar
pub mod Seen
pub mod Told
pub mod Walk
