pub mod Packets
pub mod Pieces
pub mod Replies
