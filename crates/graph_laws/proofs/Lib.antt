pub mod Lists
pub mod Nodes
pub mod Kept
pub mod Lawful
