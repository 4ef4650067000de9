pub mod DatagramExamples
pub mod DatagramLemmas
pub mod ReplyLemmas
