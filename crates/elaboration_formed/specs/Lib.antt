pub mod Arities
pub mod Formed
pub mod Programs
