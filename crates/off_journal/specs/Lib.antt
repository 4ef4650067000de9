pub mod Payload
pub mod Journal
pub mod JournalLaws
pub mod Keeping
pub mod KeepingLaws
pub mod Reading
pub mod Begin
pub mod Laws
