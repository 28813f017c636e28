pub mod Parted
pub mod HeadMembers
pub mod BuiltIns
pub mod ValueMembers
