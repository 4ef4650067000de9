pub mod DropExamples
pub mod Fronts
