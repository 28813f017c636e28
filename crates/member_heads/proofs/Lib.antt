pub mod Promoting
pub mod HeadParts
pub mod ByMembers
