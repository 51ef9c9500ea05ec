pub mod Acts
pub mod Labels
