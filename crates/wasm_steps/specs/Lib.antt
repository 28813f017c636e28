pub mod Steps
pub mod Layout
pub mod Moves
pub mod Follow
pub mod Calls
