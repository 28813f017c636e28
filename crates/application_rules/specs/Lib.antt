pub mod Functions
pub mod Callees
