pub mod Emit
pub mod Trees
pub mod Compiled
