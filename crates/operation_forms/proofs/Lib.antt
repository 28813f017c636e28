pub mod Sequences
pub mod Forms
pub mod AllKinds
pub mod AllCodes
