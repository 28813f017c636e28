pub mod Books
pub mod Leaving
pub mod Ends
pub mod Running
