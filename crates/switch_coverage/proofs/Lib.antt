pub mod Lists
pub mod Seen
pub mod Selecting
pub mod Fitting
