pub mod Workspace
pub mod Sifted
pub mod Memory
