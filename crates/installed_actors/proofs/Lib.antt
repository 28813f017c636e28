pub mod Padded
pub mod Set
pub mod Keeping
pub mod Calling
pub mod Shares
pub mod Installing
