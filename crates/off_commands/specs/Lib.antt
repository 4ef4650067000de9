pub mod Imports
pub mod Commands
