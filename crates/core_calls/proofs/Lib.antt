pub mod Held
pub mod Operating
