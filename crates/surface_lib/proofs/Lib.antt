pub mod Cuts
pub mod Lookups
pub mod Insertion
pub mod Levels
pub mod Backwards
pub mod Capped
pub mod Small
pub mod Weights
pub mod Loops
pub mod Named
pub mod Carried
pub mod Written
pub mod Long
pub mod Sizes
pub mod Stepped
mod Examples
mod GeneratorExamples
pub mod Entries
pub mod Flips
pub mod FlipsRead
pub mod NewNames
pub mod Grown
pub mod ManyRead
pub mod FileRefusals
pub mod TestedBases
pub mod TestedRelabellings
pub mod ClosedForms
pub mod MadeSurfaces
