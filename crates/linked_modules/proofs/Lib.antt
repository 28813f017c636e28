pub mod Prefixed
pub mod Routines
pub mod Linking
pub mod First
