pub mod Examples
pub mod Messages
