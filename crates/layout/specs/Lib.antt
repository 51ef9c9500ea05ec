pub mod Form
pub mod Kinds
pub mod Places
