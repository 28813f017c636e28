pub mod TreeViews
pub mod PatternViews
