pub mod Cond
pub mod Numbers
pub mod Runs
pub mod Swaps
mod ZerosBehind
pub mod MetCases
pub mod AllBelow
pub mod Rising
pub mod Bits
