pub mod Formed
pub mod Trees
pub mod Unformed
