pub mod ByOperator
