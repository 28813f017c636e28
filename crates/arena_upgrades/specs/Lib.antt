pub mod Outstanding
pub mod Restarting
pub mod Saving
pub mod Staying
pub mod Upgrades
