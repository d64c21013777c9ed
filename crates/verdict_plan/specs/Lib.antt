pub mod Budgets
pub mod TrackTests
pub mod FirstTracks
pub mod FurtherTracks
pub mod AllCandidates
pub mod Verdicts
pub mod inside
