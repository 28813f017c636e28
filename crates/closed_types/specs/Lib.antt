pub mod Closings
pub mod Numbering
pub mod Expanded
pub mod Environments
