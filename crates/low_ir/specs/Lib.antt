pub mod Tree
pub mod Numbering
pub mod Meaning
pub mod Frames
pub mod Formed
pub mod Flat
pub mod Routines
pub mod Rows
