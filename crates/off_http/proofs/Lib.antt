pub mod Needles
pub mod Meanings
pub mod PartLemmas
pub mod LengthLemmas
pub mod Examples
