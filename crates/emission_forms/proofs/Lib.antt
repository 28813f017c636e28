pub mod Emitted
pub mod Functions
