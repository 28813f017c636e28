pub mod Before
pub mod Gathering
pub mod Annotations
pub mod Forms
pub mod Several
pub mod Steps
pub mod Signed
