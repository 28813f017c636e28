pub mod Names
mod Standing
mod Ends
mod Operators
mod Lists
pub mod Judged
