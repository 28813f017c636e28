pub mod Gathers
pub mod Laws
