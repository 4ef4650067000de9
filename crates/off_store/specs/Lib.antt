pub mod Begin
pub mod AnyKeeper
pub mod AnyKeeperLaws
pub mod Places
