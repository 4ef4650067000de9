pub mod CountLemmas
pub mod RaiseLemmas
pub mod AgreeLemmas
pub mod ShapeLemmas
pub mod LawLemmas
pub mod OwnLemmas
pub mod SizeLemmas
