pub mod Low
pub mod Access
