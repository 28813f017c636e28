pub mod Operations
pub mod States
pub mod Modules
pub mod Shortage
pub mod Steps
pub mod Laws
