pub mod Job
pub mod Key
pub mod Limits
pub mod Load
pub mod Numbering
pub mod Sound
pub mod Keyed
pub mod Counts
