pub mod Input
pub mod Text
pub mod Health
pub mod Ending
pub mod Jobs
