pub mod Asking
pub mod Said
pub mod Choice
pub mod Claims
pub mod Sending
