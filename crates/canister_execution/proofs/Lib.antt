pub mod Entering
pub mod Limits
pub mod Told
