pub mod ByWanted
pub mod Seen
pub mod Texts
