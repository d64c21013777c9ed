-- What serves loops and private functions: contracts of public calls name none of it.
pub mod EndSteps
