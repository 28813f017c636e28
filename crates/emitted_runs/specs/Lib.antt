pub mod Stands
pub mod Runs
pub mod Bodies
pub mod Laws
