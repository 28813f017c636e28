pub mod Later
pub mod Fewer
pub mod Cut
pub mod Under
