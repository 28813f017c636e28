pub mod RunsOut
pub mod Beside
pub mod Ends
pub mod Exhausted
pub mod Shows
