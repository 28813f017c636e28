pub mod Joining
pub mod Numbers
pub mod Comparisons
pub mod Opposites
pub mod RightSides
