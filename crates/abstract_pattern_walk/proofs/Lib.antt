pub mod PatternMaking
