pub mod Functions
pub mod Names
pub mod Standing
pub mod Steps
