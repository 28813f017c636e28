pub mod Branching
pub mod Leaving
