pub mod Referred
pub mod Pointed
