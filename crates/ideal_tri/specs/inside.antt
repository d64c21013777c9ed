-- What serves the private fields of `Tri` alone.
pub mod Places
pub mod LaidOut
