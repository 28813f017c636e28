pub mod Typed
pub mod Looping
