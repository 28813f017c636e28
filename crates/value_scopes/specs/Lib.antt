pub mod Stacks
pub mod Values
pub mod Places
pub mod Labels
