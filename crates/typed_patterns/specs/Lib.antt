pub mod Faults
pub mod Heads
pub mod Making
pub mod Binding
