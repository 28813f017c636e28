pub mod Whens
pub mod Cells
