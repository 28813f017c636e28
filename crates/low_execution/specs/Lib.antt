pub mod Host
pub mod Execution
pub mod Entries
pub mod Loading
