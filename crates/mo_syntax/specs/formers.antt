pub mod items
pub mod node
