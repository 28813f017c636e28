pub mod Meanings
pub mod Tables
pub mod Places
pub mod Putting
pub mod Definitions
pub mod Outcomes
pub mod Unfolding
pub mod Heads
