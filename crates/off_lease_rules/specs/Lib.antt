pub mod Words
pub mod Free
pub mod Rules
pub mod Steps
