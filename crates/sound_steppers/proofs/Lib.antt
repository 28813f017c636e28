pub mod Owned
pub mod Back
pub mod Sound
