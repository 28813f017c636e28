pub mod Made
pub mod Callable
