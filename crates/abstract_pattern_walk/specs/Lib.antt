pub mod PatternWalks
