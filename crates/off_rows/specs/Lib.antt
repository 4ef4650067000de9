pub mod BadRow
pub mod KeyBytes
pub mod KeyPads
pub mod KeyText
pub mod Laws
pub mod Left
pub mod Reading
pub mod RowBytes
