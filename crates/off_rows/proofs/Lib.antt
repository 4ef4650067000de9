pub mod BadLemmas
mod Examples
pub mod FieldLemmas
pub mod KeyOrder
pub mod RowFields
pub mod Rows
