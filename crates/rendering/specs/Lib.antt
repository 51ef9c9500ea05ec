pub mod Render
pub mod Tables
pub mod Shown
