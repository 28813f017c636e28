pub mod Drops
pub mod Grouped
pub mod Ordering
pub mod Valued
pub mod Whole
