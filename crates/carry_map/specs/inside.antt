-- What serves the private functions and the proofs alone: no public clause cites it.
pub mod Heights
pub mod Rays
pub mod Steps
pub mod Switches
