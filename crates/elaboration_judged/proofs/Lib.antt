pub mod Apart
pub mod Counted
pub mod Formed
pub mod Programs
pub mod Runs
pub mod Written
