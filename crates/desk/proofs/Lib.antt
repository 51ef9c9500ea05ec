pub mod Stepping
pub mod Loop
