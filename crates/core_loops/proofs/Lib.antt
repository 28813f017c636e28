pub mod Always
pub mod Turns
