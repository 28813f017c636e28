pub mod Answered
pub mod Under
pub mod Written
