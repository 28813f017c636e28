pub mod Graphs
pub mod Labels
pub mod Candid
pub mod Messages
