pub mod Stages
pub mod KeptStages
pub mod FlippedStages
pub mod StageLaws
pub mod StageLists
pub mod OpenCycles
pub mod Light
pub mod inside
