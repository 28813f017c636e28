pub mod Prepared
pub mod Ranges
pub mod Texts
