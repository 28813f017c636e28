pub mod SmallFormed
