pub mod Net
pub mod Sum
pub mod Key
pub mod Flow
pub mod Records
