pub mod Codes
pub mod Lines
pub mod Powers
pub mod Built
pub mod Laws
