pub mod Reaching
pub mod Similar
pub mod Using
pub mod Marking
