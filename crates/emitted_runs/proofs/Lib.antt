pub mod Behind
pub mod Quiet
pub mod Runs
pub mod Growing
pub mod Entered
