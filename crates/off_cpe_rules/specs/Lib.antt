pub mod Words
pub mod Behind
pub mod Rules
pub mod Steps
