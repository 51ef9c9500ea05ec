pub mod Blanks
pub mod Elements
