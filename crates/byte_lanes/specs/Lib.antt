pub mod Ascii
pub mod Difference
pub mod Lines
pub mod Mask
