pub mod Room
pub mod Levels
pub mod Search
