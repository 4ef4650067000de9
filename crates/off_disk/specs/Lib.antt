pub mod Ahead
pub mod DiskSeen
pub mod DiskCalls
pub mod Records
pub mod RecordLaws
pub mod Crashing
