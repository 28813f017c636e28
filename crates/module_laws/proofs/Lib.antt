pub mod HostNumbers
pub mod HostResults
pub mod HostPrints
pub mod StoredBytes
pub mod Short
