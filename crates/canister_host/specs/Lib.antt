pub mod Entries
pub mod Execution
pub mod HostRun
pub mod Replies
pub mod State
pub mod Types
