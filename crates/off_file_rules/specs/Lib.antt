pub mod Name
pub mod Profile
pub mod File
pub mod Block
