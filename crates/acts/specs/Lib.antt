pub mod Changes
pub mod Lines
