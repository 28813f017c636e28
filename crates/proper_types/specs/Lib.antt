pub mod Passing
pub mod Rules
