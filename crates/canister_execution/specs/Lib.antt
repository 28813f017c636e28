pub mod Executed
pub mod Views
