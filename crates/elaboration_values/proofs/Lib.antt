pub mod Belong
pub mod Messages
