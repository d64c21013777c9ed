pub mod Slots
pub mod Acceptance
pub mod Connected
pub mod Forced
pub mod Pushes
