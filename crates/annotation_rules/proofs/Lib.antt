pub mod ActorTexts
pub mod Annotating
