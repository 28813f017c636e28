pub mod Entries
pub mod RunTime
pub mod Laws
