pub mod FlipPaths
pub mod GreatestFlips
pub mod LastImages
pub mod StageSteps
pub mod StageLists
pub mod OpenCycles
