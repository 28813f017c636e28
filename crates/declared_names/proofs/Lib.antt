mod DeclaredNames
pub mod Entering
