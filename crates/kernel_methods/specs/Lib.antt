pub mod Shared
pub mod Methods
