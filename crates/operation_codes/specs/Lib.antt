pub mod Links
pub mod Codes
pub mod Treated
pub mod Laws
