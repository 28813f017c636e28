mod Bindings
mod Deciding
mod Places
mod Views
