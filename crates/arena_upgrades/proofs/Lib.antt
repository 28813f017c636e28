pub mod Counted
pub mod Courses
pub mod Lefts
pub mod OpenCalls
pub mod Overs
pub mod Saves
