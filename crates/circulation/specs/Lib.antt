pub mod Summed
pub mod Gathering
pub mod Answers
