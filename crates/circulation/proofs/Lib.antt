pub mod Lines
pub mod Sums
pub mod Gathering
pub mod Stuck
