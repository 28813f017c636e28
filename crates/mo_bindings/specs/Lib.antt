pub mod ExpressionNames
