pub mod PatternView
pub mod TypeView
pub mod formers
