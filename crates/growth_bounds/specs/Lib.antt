pub mod Rule
pub mod inside
