pub mod Promoting
pub mod Standing
pub mod Using
pub mod Adding
pub mod Walking
pub mod Grouping
pub mod OwnUses
