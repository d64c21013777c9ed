pub mod Stops
pub mod Sites
pub mod SiteSteps
pub mod TrackParts
pub mod TrainPaths
pub mod PeriodicParts
pub mod Columns
