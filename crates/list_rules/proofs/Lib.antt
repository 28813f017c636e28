pub mod InTurn
pub mod Whole
