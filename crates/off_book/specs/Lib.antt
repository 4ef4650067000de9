pub mod Time
pub mod Http
pub mod Dhcp
pub mod Tftp
pub mod Step
pub mod Run
pub mod Crashes
pub mod Words
