pub mod Exact
pub mod Made
pub mod Steps
pub mod Turns
