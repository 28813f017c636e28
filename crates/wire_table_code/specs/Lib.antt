pub mod TableCode
pub mod Rows
