pub mod Act
pub mod Allowed
pub mod Names
