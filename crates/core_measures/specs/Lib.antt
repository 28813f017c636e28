pub mod Measures
pub mod Naming
pub mod Sizes
pub mod Within
