pub mod Reached
pub mod Nodes
pub mod Closing
pub mod Faults
pub mod Overflowing
pub mod States
