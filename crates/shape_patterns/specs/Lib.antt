pub mod Choice
pub mod Stands
pub mod Writes
pub mod Listing
