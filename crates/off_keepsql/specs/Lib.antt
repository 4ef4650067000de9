pub mod Stored
pub mod SqlSeen
pub mod OwnCount
pub mod SqlLaws
pub mod Laws
pub mod Begin
