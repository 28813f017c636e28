pub mod Placing
pub mod NoPlaces
