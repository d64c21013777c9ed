pub mod Tracks
pub mod Branches
pub mod Passes
pub mod Refusals
pub mod TrackLaws
pub mod inside
