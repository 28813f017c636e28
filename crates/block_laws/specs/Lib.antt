pub mod Bound
pub mod Lists
pub mod Order
pub mod Laws
