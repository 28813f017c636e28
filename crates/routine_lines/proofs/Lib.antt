pub mod Spots
pub mod Linked
