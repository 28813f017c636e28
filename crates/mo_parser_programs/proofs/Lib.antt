pub mod Fields
pub mod Functions
pub mod Imports
pub mod Prefixes
pub mod Programs
