pub mod Proper
pub mod Lawful
pub mod Source
pub mod Meets
pub mod Laws
