pub mod Ground
pub mod Reading
