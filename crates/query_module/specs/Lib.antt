pub mod Message
pub mod ActorRun
pub mod Tree
pub mod Program
pub mod Answers
pub mod Laws
