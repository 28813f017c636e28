pub mod Programs
pub mod Around
