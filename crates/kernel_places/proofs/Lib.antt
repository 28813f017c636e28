pub mod Having
pub mod Reached
pub mod Placed
mod Noting
mod Marked
mod Closed
mod Copied
pub mod Listed
