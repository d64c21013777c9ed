pub mod Images
pub mod Tested
pub mod Among
pub mod CycleParts
