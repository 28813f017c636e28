pub mod Turned
pub mod Settled
pub mod Loaded
pub mod Actors
pub mod Runs
