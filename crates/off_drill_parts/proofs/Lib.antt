mod MessageLemmas
pub mod CommandLemmas
pub mod TallyLemmas
