pub mod Held
pub mod Load
pub mod Refusal
