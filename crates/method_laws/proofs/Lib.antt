pub mod Entering
pub mod Methods
