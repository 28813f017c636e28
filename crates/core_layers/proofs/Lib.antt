pub mod Views
pub mod Adding
pub mod Holding
pub mod Literals
pub mod Rests
