pub mod Lists
pub mod Patterns
pub mod Trees
