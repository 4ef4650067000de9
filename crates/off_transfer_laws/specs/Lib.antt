pub mod Texts
pub mod Agreement
pub mod Laws
pub mod SameRows
pub mod Sound
pub mod Origins
