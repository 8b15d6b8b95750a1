pub mod Setup
pub mod Take
pub mod View
pub mod JoinerWords
pub mod Records
pub mod Calls
