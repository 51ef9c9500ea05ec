pub mod Placed
pub mod Puts
