pub mod LightCurves
pub mod inside
