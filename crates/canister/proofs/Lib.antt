pub mod Beginning
pub mod Showing
