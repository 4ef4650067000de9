mod ListLemmas
mod PutLemmas
pub mod RightLemmas
mod TurnLemmas
pub mod WriteLemmas
