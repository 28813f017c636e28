pub mod TypeNames
pub mod PatternNames
pub mod Walks
