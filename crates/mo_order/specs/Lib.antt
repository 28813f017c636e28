pub mod Parts
pub mod PartNotes
pub mod Least
pub mod Calls
pub mod Reach
pub mod Early
pub mod Breaches
