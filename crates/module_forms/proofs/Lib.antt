pub mod Placed
pub mod Modules
pub mod Spelling
pub mod Sizes
