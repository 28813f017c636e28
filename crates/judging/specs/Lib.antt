pub mod Views
pub mod Parts
pub mod Answers
pub mod Questions
pub mod Heads
