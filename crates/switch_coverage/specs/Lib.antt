pub mod Switches
pub mod Found
pub mod Uncovered
