pub mod Families
pub mod Heads
pub mod Literals
pub mod Steps
pub mod Pairs
