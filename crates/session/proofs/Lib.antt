pub mod Agree
pub mod Faithful
pub mod Loop
pub mod Steps
pub mod Work
