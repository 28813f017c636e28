pub mod PatternViews
pub mod TypeViews
