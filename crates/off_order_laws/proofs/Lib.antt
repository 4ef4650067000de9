pub mod LostLeases
pub mod DevicePools
pub mod ClerkSteps
pub mod StepLaws
mod Examples
