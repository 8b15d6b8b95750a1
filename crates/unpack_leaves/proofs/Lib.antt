pub mod OneLeaf
pub mod InTurn
pub mod Counts
pub mod OneCode
mod Ascii
mod Fours
pub mod WholeRuns
pub mod Loops
pub mod AmongValues
