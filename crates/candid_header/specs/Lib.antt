pub mod Reading
pub mod Table
pub mod Header
