pub mod Angles
pub mod Parts
pub mod Layer
pub mod Whole
