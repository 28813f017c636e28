pub mod Modules
pub mod Transcripts
