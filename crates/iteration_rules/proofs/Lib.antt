pub mod ItemParts
pub mod Turning
pub mod Passing
