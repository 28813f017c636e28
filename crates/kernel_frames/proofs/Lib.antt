pub mod Rebuilding
pub mod Found
