pub mod Numbering
pub mod Finishing
