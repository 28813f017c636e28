pub mod Machines
pub mod Simulations
pub mod Rows
