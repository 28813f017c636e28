pub mod ProgramNames
pub mod Order
pub mod Bound
