pub mod Outcomes
pub mod Bounds
pub mod Uses
