pub mod Imported
pub mod Kinds
