pub mod Digits
pub mod Scanning
pub mod Readers
pub mod Writers
pub mod Laws
pub mod Rows
