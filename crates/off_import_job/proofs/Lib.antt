pub mod BehindLemmas
pub mod ImportLemmas
