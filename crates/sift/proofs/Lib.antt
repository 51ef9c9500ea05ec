pub mod Exact
pub mod Same
pub mod Lift
