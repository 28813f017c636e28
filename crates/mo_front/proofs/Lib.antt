pub mod OneAnswer
pub mod TypeFaults
pub mod WellTyped
