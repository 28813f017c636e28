pub mod Suiting
pub mod Deciding
pub mod Making
pub mod Cases
pub mod Rows
