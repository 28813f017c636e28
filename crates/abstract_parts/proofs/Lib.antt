pub mod FormMaking
pub mod ListMaking
