pub mod References
pub mod Tables
pub mod Rows
