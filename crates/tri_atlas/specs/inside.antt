-- What serves the private fields and private functions alone: no public clause cites it.
pub mod Fields
pub mod Backwards
