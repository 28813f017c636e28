pub mod Declarations
pub mod Staying
pub mod Starts
pub mod Saves
pub mod Runs
