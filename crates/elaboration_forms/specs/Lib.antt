pub mod Elaborates
pub mod Meets
