pub mod Block
pub mod Bytes
pub mod Faults
