pub mod Unbroken
pub mod KeptActors
pub mod Laws
pub mod QuietActor
