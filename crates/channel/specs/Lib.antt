pub mod Record
pub mod Channel
pub mod Outcomes
