pub mod Transcript
pub mod Steps
