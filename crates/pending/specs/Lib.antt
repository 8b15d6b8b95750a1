pub mod Places
pub mod Free
pub mod Answers
pub mod Counted
pub mod PlainMap
pub mod Turns
