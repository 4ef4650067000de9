pub mod CrashLemmas
pub mod FoundingLemmas
pub mod LinkLemmas
pub mod TurnLemmas
pub mod ExerciseLemmas
pub mod ServingLemmas
pub mod DrillLemmas
