pub mod Sizes
pub mod Opening
pub mod Emitting
pub mod Views
