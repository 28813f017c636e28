pub mod Together
pub mod Calling
pub mod Waiting
pub mod Resuming
pub mod Entering
pub mod Whole
pub mod Ending
