pub mod LaidOut
pub mod Again
pub mod Steps
