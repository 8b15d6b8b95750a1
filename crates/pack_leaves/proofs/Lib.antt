pub mod Laid
pub mod There
pub mod Behind
mod OneMore
pub mod StoredRuns
mod Fours
