pub mod Tree
pub mod Runs
pub mod Walk
pub mod Planned
pub mod Codes
pub mod Whole
