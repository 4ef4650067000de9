pub mod Puts
pub mod Asked
pub mod Once
pub mod Laws
