pub mod Grow
pub mod Heads
pub mod Closed
pub mod Same
