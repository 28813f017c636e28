pub mod Puts
pub mod Flat
