pub mod Shown
pub mod Refusals
pub mod Misses
pub mod Explained
