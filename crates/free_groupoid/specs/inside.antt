-- What serves private parts alone.
pub mod Turns
pub mod Images
pub mod Fields
pub mod InnerPaths
pub mod Sprouting
pub mod ComputedWalks
