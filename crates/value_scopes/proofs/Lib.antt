pub mod Stacking
pub mod Seeing
pub mod Looping
