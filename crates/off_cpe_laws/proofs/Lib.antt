pub mod CountLemmas
pub mod RowLemmas
pub mod RuleLemmas
pub mod WriteLemmas
pub mod LimitLemmas
pub mod GoodLemmas
pub mod WordLemmas
