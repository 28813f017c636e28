pub mod Nearest
pub mod Within
