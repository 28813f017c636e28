pub mod LargeFormed
