pub mod Cursors
pub mod Room
pub mod Walks
pub mod Downhill
pub mod Pushing
