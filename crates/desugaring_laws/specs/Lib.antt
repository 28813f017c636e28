pub mod Yields
pub mod GraphOf
pub mod Known
pub mod Names
pub mod Written
pub mod Scopes
pub mod Laws
