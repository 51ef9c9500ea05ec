pub mod Number
pub mod Search
pub mod Verdicts
