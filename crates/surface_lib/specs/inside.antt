pub mod Cut
pub mod Found
pub mod Counted
pub mod Verdicts
pub mod Faults
pub mod Seen
pub mod ClosedForms
