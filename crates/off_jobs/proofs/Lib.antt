pub mod InputLemmas
pub mod EndingLemmas
pub mod VerdictLemmas
pub mod JobLemmas
