pub mod Descents
pub mod ShortCurves
pub mod FlippedCornerLaws
pub mod Twists
pub mod inside
