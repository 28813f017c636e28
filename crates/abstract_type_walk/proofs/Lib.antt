pub mod ItemMaking
pub mod Listing
pub mod Spanning
pub mod TypeMaking
