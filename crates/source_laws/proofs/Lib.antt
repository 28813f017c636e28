pub mod Numbers
pub mod Recursion
