pub mod Verdict
pub mod Operands
pub mod Blocks
pub mod Body
pub mod Function
pub mod Parts
pub mod Judged
pub mod Locals
