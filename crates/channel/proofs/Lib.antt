mod Stepping
pub mod Cases
pub mod Movable
