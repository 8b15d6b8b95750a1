pub mod Limits
pub mod Forms
pub mod Choice
