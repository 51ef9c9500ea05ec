pub mod Contents
pub mod Faults
pub mod Format
pub mod Formed
pub mod Reading
pub mod Small
