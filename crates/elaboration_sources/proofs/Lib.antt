pub mod Formed
pub mod Sources
