pub mod AllElements
pub mod ByArray
