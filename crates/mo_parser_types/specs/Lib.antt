pub mod Ends
pub mod Generics
pub mod Nests
pub mod Types
