pub mod Read
pub mod Renamed
pub mod Steps
pub mod Front
pub mod Visit
pub mod Spread
