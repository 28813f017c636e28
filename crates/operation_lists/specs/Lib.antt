pub mod Listed
pub mod Linked
