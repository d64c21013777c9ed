pub mod Matrices
pub mod Bounds
pub mod MatrixLaws
pub mod inside
