pub mod Sharing
pub mod Place
pub mod Plain
pub mod Cells
pub mod AtEnd
