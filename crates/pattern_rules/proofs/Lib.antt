pub mod Matching
pub mod Cases
pub mod SwitchParts
pub mod TryParts
pub mod Labelling
