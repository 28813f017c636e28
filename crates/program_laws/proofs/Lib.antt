pub mod Given
pub mod Programs
pub mod Around
pub mod Standing
pub mod Reached
