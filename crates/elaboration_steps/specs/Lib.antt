pub mod Stacks
pub mod Follows
pub mod Running
