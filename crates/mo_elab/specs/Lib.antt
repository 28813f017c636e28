pub mod Serving
pub mod Spine
