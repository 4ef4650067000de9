pub mod Entries
pub mod KeeperCode
pub mod KeeperInMemory
pub mod KeptRows
pub mod Plans
pub mod Puts
pub mod Shelves
