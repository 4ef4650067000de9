pub mod Words
pub mod Asked
pub mod Hubs
pub mod Answers
