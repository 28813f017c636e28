pub mod InTurn
pub mod Changed
