pub mod Own
pub mod Alone
pub mod Others
pub mod Laws
