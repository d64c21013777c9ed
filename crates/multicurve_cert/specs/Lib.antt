pub mod Cycles
pub mod Candidates
pub mod LastTests
pub mod CurveAnswers
pub mod PowerLaws
pub mod inside
