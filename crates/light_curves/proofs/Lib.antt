pub mod Doubling
pub mod CarriedBack
pub mod TouchedVertices
pub mod CrossedEdges
pub mod LightLines
