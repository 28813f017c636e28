pub mod Events
pub mod Numbers
pub mod Items
pub mod Words
pub mod Scripts
pub mod Told
pub mod Faults
pub mod Places
