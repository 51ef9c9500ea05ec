pub mod ActLists
pub mod Checks
pub mod Files
pub mod Listed
pub mod Loaded
