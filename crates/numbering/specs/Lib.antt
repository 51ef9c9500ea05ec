pub mod Numbered
pub mod JobNumbered
pub mod Flowed
pub mod Stacked
