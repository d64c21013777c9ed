pub mod FirstFailing
pub mod PeriodicRules
pub mod VectorRules
pub mod TrackRules
pub mod TrackRefusals
pub mod Verdicts
pub mod inside
