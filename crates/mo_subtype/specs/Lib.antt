pub mod Questions
pub mod Pairs
pub mod Labels
pub mod Certificate
pub mod Renamed
