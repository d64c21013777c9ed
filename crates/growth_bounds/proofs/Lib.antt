pub mod Products
pub mod Ratios
pub mod Rows
pub mod Bounding
pub mod WideOrder
