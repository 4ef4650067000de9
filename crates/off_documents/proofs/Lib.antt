mod DocumentLemmas
mod LevelLemmas
mod WalkLemmas
