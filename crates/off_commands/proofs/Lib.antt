mod ProgressLemmas
mod JudgeLemmas
mod RowsLemmas
mod ImportLemmas
mod GoodLemmas
