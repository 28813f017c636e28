pub mod Bounding
pub mod InstanceParts
pub mod CalleeParts
