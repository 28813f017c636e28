pub mod Arms
pub mod Labelled
