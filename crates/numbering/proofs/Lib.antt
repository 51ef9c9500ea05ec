pub mod Within
pub mod Passes
pub mod Jobs
pub mod Flowed
pub mod Refused
pub mod Stacked
