pub mod Check
pub mod Feed
pub mod Hmac
pub mod Laws
pub mod Mic
pub mod Seal
pub mod Started
