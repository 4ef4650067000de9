pub mod Outcomes
pub mod Moves
pub mod Effects
pub mod Laws
