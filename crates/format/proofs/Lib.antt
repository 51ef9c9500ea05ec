pub mod Blocks
pub mod Exact
pub mod Held
pub mod OneFile
pub mod Same
pub mod Unrefused
pub mod Whole
pub mod Written
