mod Fields
mod Methods
pub mod Shown
pub mod Tokens
pub mod Programs
