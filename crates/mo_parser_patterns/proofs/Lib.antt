pub mod Unary
pub mod Whole
