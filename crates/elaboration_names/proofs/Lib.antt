pub mod Earlier
pub mod Ends
pub mod Spine
pub mod Named
