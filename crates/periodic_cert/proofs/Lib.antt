pub mod Turns
pub mod Passing
pub mod Reasons
pub mod Search
