pub mod Depth
pub mod Nested
pub mod Rooms
pub mod Stack
