pub mod CableLemmas
pub mod SpanLemmas
