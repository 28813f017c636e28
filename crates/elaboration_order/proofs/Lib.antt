pub mod Making
pub mod Ordered
