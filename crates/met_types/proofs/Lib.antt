pub mod Indexing
pub mod Extending
pub mod Failing
pub mod NodeParts
pub mod Counted
pub mod Expanding
pub mod Meeting
pub mod Staying
