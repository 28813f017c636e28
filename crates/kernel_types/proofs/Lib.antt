pub mod Numbered
pub mod Promoting
