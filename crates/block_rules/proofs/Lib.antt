pub mod BlockParts
pub mod ObjectParts
