pub mod Found
pub mod Growth
pub mod Judging
pub mod Rows
pub mod Start
pub mod Visit
pub mod Visits
