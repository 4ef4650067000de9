pub mod CountLemmas
pub mod SeenLemmas
pub mod WriteLemmas
pub mod UseLemmas
pub mod KeptLemmas
