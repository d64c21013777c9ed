pub mod Marks
pub mod InOrder
