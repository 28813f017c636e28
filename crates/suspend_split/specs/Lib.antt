pub mod Kinds
pub mod Drafts
pub mod Makes
pub mod Bindings
pub mod Parts
pub mod Runs
