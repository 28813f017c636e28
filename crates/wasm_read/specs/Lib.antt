pub mod Fields
pub mod Shapes
pub mod Codes
pub mod Parts
pub mod Sections
