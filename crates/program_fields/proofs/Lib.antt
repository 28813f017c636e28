pub mod MetTypes
pub mod Own
pub mod Coming
