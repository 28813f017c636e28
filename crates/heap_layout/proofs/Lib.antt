pub mod Written
pub mod Meanings
pub mod Fills
pub mod Owners
pub mod Cells
pub mod NewCells
pub mod Makes
pub mod Begins
