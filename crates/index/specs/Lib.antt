pub mod Copy
pub mod Rows
pub mod Steps
pub mod Graph
