pub mod Laws
pub mod Details
pub mod Commas
