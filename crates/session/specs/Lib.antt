pub mod Log
pub mod Promise
