pub mod Plans
pub mod Listing
