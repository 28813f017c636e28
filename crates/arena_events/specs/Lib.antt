pub mod Methods
pub mod Filling
pub mod Lives
pub mod Calling
pub mod Answering
