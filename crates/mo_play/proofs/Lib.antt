pub mod Bytes
pub mod Lines
pub mod Runs
pub mod Events
