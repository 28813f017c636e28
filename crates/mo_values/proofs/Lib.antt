pub mod Natural
pub mod SameCosts
pub mod Wrapped
pub mod Recoded
pub mod Alike
pub mod Leaves
