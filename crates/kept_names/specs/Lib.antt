pub mod Plain
pub mod Keeping
pub mod Laws
