pub mod Found
pub mod Takes
pub mod Values
