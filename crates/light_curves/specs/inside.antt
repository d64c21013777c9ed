pub mod Touched
pub mod StageCurves
