pub mod MarkLemmas
pub mod OrderLemmas
pub mod OwnerLemmas
pub mod StandingLemmas
pub mod UsingLemmas
