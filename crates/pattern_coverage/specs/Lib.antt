pub mod Inhabited
pub mod Followed
pub mod Known
pub mod Leaves
pub mod Suited
pub mod Cutting
pub mod Cover
pub mod Rows
