mod LoopLemmas
mod BlockLemmas
mod TailLemmas
