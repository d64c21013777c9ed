pub mod Numbers
pub mod Marking
pub mod Tracing
pub mod InOrder
pub mod ClosedWalks
