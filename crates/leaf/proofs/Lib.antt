pub mod Limits
pub mod Leaves
pub mod Counted
mod Stretches
mod Signs
pub mod Returns
