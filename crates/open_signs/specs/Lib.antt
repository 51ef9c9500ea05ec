pub mod Theorem
