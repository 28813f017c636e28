pub mod Scoping
pub mod CodeViews
