pub mod Locals
pub mod Functions
