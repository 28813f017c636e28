pub mod Coming
pub mod Checking
