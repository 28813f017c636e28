pub mod Contents
pub mod Entry
pub mod Unset
pub mod Laws
