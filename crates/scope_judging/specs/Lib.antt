pub mod Rules
pub mod Binding
