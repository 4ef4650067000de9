pub mod Datagram
pub mod Reply
