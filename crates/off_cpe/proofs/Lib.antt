mod Chain
mod CaseLemmas
mod RowLemmas
mod StageLemmas
mod ChoiceLemmas
mod WriteLemmas
mod LeaseLemmas
