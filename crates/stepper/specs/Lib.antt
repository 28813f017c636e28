pub mod Standing
pub mod Stepping
pub mod Absent
pub mod Installing
pub mod Living
pub mod Upgrading
pub mod Runs
