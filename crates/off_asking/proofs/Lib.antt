pub mod SpanLemmas
pub mod TextLemmas
pub mod ClaimLemmas
pub mod PoolLemmas
pub mod ChoiceLemmas
