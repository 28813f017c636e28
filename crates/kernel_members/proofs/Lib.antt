pub mod Heads
pub mod Accessed
