pub mod Fitting
pub mod Valuing
pub mod Fielding
pub mod ByObject
