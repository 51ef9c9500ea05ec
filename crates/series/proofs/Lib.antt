pub mod Tally
pub mod Masks
pub mod Kept
pub mod Roles
