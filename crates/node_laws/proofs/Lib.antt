pub mod Equations
pub mod PatternNodes
pub mod Arranging
pub mod TreeNodes
pub mod ProgramNodes
