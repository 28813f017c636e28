pub mod Shapes
pub mod Inside
