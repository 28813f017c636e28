pub mod Checking
pub mod Forming
pub mod Groups
pub mod Programs
pub mod Trees
