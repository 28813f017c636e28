pub mod Texts
pub mod Deciding
pub mod ByHeads
pub mod Pairing
