pub mod Tabled
pub mod Inline
