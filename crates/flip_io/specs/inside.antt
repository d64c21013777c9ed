-- What no reader has to believe: the private fields of the forms over the system, and lemmas for
-- laws of `Shelf`.
pub mod Dir
pub mod FiniteMaps
pub mod Streams
