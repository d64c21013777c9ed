pub mod TwistPaths
pub mod TwistLaws
pub mod inside
