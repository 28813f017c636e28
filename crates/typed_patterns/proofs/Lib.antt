pub mod Literals
pub mod Parts
pub mod Joining
pub mod Views
pub mod Forms
pub mod Standing
pub mod Several
pub mod Arms
