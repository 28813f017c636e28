pub mod Stands
pub mod TypeWalks
