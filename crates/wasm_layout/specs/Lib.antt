pub mod Arities
pub mod Ends
pub mod Passes
pub mod Bodies
pub mod Sizes
pub mod Modules
pub mod Words
