pub mod Heads
pub mod Members
pub mod Operations
pub mod Actions
pub mod Constants
pub mod SameHeads
pub mod Equality
