pub mod Places
pub mod Putting
