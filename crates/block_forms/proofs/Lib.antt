pub mod Arranged
pub mod AtEnd
pub mod Whole
pub mod Blocks
pub mod Shapes
pub mod Written
pub mod Objects
