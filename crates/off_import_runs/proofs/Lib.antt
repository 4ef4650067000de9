pub mod Asides
pub mod Decisions
pub mod Answers
pub mod Turns
pub mod Sources
pub mod Runs
mod Examples
