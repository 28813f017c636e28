pub mod Judging
pub mod Turns
pub mod Sending
pub mod Walking
pub mod Readings
