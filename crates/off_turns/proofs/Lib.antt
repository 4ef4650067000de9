mod TakeLemmas
mod TurnLemmas
mod RanLemmas
mod FromLemmas
pub mod ServeLemmas
