mod Lines
mod Events
