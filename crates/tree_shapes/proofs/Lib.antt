pub mod Lists
pub mod Patterns
pub mod Programs
pub mod Simple
pub mod Single
pub mod Trees
