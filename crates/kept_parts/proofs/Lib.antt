pub mod Compared
pub mod FormSteps
pub mod Kept
pub mod UnformSteps
