pub mod ExpressionEquations
pub mod ExpressionInduction
pub mod Known
pub mod Mapped
pub mod PatternEquations
pub mod PatternInduction
pub mod TypeEquations
pub mod TypeInduction
