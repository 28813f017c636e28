pub mod Lows
pub mod Heads
pub mod Flats
pub mod Goings
pub mod Messages
