pub mod Refs
pub mod Pairs
pub mod Asks
pub mod Types
