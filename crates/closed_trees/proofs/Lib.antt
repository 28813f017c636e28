pub mod Coded
pub mod Scopes
pub mod Seen
pub mod Lawful
pub mod Patterns
pub mod Literals
pub mod Doing
pub mod Trees
