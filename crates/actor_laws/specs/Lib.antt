pub mod Actors
pub mod Order
