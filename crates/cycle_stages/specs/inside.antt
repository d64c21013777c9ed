pub mod NextFlips
pub mod OpenWalks
pub mod StagesSoFar
