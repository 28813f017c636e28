pub mod HeadParts
pub mod TypesOf
