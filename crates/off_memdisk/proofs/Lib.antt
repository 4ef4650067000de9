pub mod DiskLemmas
pub mod HeldLemmas
pub mod TearLemmas
