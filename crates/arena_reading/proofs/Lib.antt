pub mod Ordered
pub mod Lists
pub mod Opened
pub mod Readings
