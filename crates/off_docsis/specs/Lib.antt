pub mod Cable
pub mod Spans
