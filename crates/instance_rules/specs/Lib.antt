pub mod Instances
pub mod Callees
