pub mod Scopes
pub mod Findings
