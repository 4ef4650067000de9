pub mod LinkSeen
pub mod LinkCalls
pub mod Streams
pub mod Outboxes
pub mod InMemory
pub mod KeeperSeen
pub mod KeeperCalls
