pub mod KeptCalls
pub mod KeptNames
pub mod KeptRuns
pub mod OneOfEach
pub mod KeptLaws
pub mod QuietRuns
