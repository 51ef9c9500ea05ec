pub mod Decided
pub mod SameText
