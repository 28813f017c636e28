pub mod Counter
pub mod Forms
