pub mod Serving
pub mod Loop
