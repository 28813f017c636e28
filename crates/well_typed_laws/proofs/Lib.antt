pub mod Forms
pub mod Counting
pub mod Functions
pub mod Programs
pub mod Numbers
