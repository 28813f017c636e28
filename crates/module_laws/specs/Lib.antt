pub mod Prints
pub mod Stored
pub mod Laws
