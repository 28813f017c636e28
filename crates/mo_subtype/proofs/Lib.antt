pub mod Questions
pub mod Rounds
pub mod Asks
pub mod Indexing
pub mod Turns
pub mod Natural
