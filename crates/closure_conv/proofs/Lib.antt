pub mod UseSets
pub mod Programs
