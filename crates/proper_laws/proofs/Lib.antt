pub mod Meeting
pub mod Putting
pub mod Unfolding
pub mod Reached
pub mod Written
