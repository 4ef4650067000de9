pub mod RunLemmas
pub mod StepLemmas
mod Examples
pub mod CrashLemmas
pub mod LeftLemmas
pub mod SavesLemmas
pub mod StepSaved
pub mod SavesThen
pub mod WordLemmas
pub mod SentLemmas
