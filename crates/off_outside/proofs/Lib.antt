pub mod OutboxLemmas
pub mod StreamLemmas
pub mod KeeperLemmas
