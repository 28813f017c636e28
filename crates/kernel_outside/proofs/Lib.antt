pub mod Adding
pub mod FramesBehind
