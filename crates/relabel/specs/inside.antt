-- What serves the private fields of a `Relabelling` and the search for one: contracts of public
-- calls name none of it.
pub mod LaidOut
pub mod Forced
