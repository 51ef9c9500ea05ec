pub mod Marks
pub mod Determined
pub mod Present
pub mod Asked
pub mod Standing
pub mod Same
