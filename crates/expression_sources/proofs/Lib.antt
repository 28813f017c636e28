pub mod ExpressionNames
pub mod Covers
pub mod Parts
pub mod Expressions
pub mod Programs
