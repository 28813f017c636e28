pub mod Written
pub mod Codes
pub mod Named
