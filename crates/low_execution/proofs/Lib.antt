pub mod HostTypes
pub mod NeverLost
