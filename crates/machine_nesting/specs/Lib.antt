pub mod Actors
pub mod Laws
pub mod Sizes
pub mod Stacks
