pub mod LowEnds
pub mod LowSimulates
pub mod Laws
