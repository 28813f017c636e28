pub mod Exact
pub mod Numbers
pub mod Names
pub mod Refs
pub mod Lists
pub mod Entries
pub mod Whole
