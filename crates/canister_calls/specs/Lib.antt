pub mod Awaiting
pub mod Calling
