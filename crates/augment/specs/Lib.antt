pub mod Cursors
pub mod Walks
pub mod Repairs
pub mod Pushes
pub mod Phases
