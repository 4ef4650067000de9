pub mod MemDisks
pub mod MemDiskLaws
pub mod Tearing
