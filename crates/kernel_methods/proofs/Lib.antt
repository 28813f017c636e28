mod Around
mod Adding
mod Found
mod Same
mod Typed
