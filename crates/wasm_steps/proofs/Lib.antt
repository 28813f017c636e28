pub mod Over
pub mod Loops
pub mod Follows
pub mod Ready
pub mod Falls
pub mod Depth
pub mod Frames
