pub mod Leaves
pub mod OneCode
pub mod Steps
