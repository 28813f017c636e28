pub mod Left
pub mod Received
pub mod States
