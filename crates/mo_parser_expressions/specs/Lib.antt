pub mod Expressions
pub mod Nests
pub mod Signs
