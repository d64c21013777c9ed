pub mod Coordinates
pub mod Refusals
pub mod MovedCoordinates
pub mod PeripheralVertices
pub mod Sums
pub mod inside
