pub mod Sound
pub mod Entering
pub mod Steps
