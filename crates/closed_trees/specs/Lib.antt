pub mod Worlds
pub mod Opening
pub mod Seen
