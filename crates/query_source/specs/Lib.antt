pub mod Tokens
pub mod Words
pub mod Labels
pub mod Source
pub mod Reading
