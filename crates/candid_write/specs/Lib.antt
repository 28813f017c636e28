pub mod Classes
pub mod Signature
pub mod Rounds
pub mod Order
pub mod Appends
