pub mod Storable
pub mod RowKinds
