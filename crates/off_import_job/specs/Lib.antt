pub mod Telling
pub mod Importing
