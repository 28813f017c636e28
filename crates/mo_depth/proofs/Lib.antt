pub mod DepthLemmas
mod StackLemmas
