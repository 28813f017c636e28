pub mod Blobs
pub mod Inner
pub mod Whole
pub mod ByNumber
pub mod Few
