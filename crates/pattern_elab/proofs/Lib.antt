pub mod Growing
pub mod Right
pub mod Ordered
pub mod Small
pub mod Chosen
