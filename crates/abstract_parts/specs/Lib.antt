pub mod Shapes
pub mod TreeWalks
