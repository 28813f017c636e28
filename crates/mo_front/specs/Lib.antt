pub mod Places
pub mod FaultNames
pub mod Fronts
pub mod Layers
