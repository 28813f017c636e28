pub mod Seq
pub mod Lists
pub mod Prefix
