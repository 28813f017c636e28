pub mod Methods
pub mod Places
pub mod Programs
pub mod Scoped
pub mod Serving
pub mod Starts
pub mod Whole
