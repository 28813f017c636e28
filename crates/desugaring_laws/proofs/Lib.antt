pub mod Yielding
pub mod HeadForms
pub mod Graph
pub mod Patterns
pub mod Weakening
pub mod Scoping
