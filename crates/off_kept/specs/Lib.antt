pub mod Entries
pub mod Right
pub mod Laws
