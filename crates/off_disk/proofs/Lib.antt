pub mod Stretches
pub mod Images
pub mod Moments
pub mod Ends
