pub mod Kept
mod Copied
