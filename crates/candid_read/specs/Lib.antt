pub mod Parts
pub mod Whole
pub mod Empty
pub mod Endless
pub mod Values
