pub mod CallingModule
pub mod WaitingModule
pub mod GrowingModule
