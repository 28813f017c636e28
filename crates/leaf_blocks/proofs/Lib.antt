pub mod Fronts
pub mod Added
pub mod Bytes
pub mod Leaves
pub mod Pairs
