pub mod Elaborates
pub mod Making
