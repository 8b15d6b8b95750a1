pub mod Places
pub mod Telling
mod Noting
mod Marking
mod Saying
pub mod OnePair
pub mod Exactly
pub mod Afterwards
pub mod WentDown
pub mod EachOnce
