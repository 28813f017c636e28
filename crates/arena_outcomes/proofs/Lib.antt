pub mod Placing
pub mod Closes
pub mod Commits
pub mod Runs
pub mod Grown
pub mod ItemLists
