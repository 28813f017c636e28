pub mod Sharing
pub mod Shared
pub mod Settled
pub mod Parts
pub mod Answers
