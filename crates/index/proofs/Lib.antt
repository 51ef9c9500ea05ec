pub mod Copied
pub mod Counts
pub mod Filling
pub mod Found
pub mod Tally
