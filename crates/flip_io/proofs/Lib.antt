-- reading a file piece by piece
pub mod Pieces
-- writing a list piece by piece
pub mod Takes
