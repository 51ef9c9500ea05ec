pub mod Sums
pub mod Cut
pub mod Mend
pub mod Trails
pub mod Push
pub mod Lawful
pub mod Round
pub mod Same
