pub mod Events
pub mod Functions
pub mod Held
pub mod Inside
pub mod Left
pub mod Starts
pub mod Tame
