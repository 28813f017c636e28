pub mod Exact
pub mod Numbers
pub mod Lists
pub mod Loops
pub mod Prefix
