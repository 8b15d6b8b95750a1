pub mod Writing
pub mod JudgedRuns
pub mod ByPlan
pub mod Alike
pub mod Sure
