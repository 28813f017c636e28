pub mod Each
pub mod Flattening
pub mod Sorting
pub mod Variants
pub mod Held
