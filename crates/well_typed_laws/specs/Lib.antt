pub mod Source
pub mod WellTyped
