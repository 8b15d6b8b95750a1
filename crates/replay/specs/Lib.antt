pub mod Bounds
pub mod Endings
