pub mod Made
mod Placing
pub mod Orders
