pub mod Told
pub mod Long
pub mod InOrder
