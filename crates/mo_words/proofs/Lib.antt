pub mod Files
pub mod Given
pub mod Ends
pub mod Unique
