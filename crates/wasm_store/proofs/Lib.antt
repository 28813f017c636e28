pub mod SegmentLists
pub mod Filling
pub mod LoadSteps
pub mod SmallModules
