pub mod Stepping
pub mod Founding
pub mod Exercising
pub mod Telling
pub mod Drilling
