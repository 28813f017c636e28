pub mod Numbers
pub mod Example
