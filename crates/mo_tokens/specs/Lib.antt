pub mod PartWriting
pub mod TypeWrites
pub mod Writes
