pub mod UnsentHeld
pub mod Connections
pub mod Reflections
pub mod Forgeries
pub mod Ports
pub mod Wholeness
