pub mod Counting
pub mod Linking
pub mod Laws
