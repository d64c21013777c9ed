pub mod Flipped
