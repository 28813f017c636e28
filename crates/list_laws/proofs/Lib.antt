pub mod Reaching
pub mod Stages
pub mod Placed
