pub mod Bounds
pub mod Steps
pub mod Trails
pub mod Theorems
