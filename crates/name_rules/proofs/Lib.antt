pub mod NoNames
pub mod FutureTypes
pub mod Naming
