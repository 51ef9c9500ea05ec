pub mod BlockKinds
pub mod Forms
