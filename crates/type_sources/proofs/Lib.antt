pub mod Splitting
pub mod Labels
pub mod TypeNames
pub mod PatternNames
pub mod Types
pub mod Patterns
