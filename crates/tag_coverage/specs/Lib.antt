pub mod Alternatives
pub mod Payloads
pub mod Options
pub mod Within
