pub mod Emission
pub mod Laws
