pub mod HeadlineLemmas
