pub mod Parts
pub mod Scoped
pub mod Defining
pub mod Bounding
pub mod Plain
pub mod Members
pub mod Classes
