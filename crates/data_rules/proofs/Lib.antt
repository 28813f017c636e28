pub mod ByTuple
pub mod ByOption
pub mod ByVariant
