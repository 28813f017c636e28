pub mod Bodies
pub mod Saving
pub mod Laws
pub mod Actors
pub mod Runs
pub mod Starts
pub mod Back
pub mod Ends
