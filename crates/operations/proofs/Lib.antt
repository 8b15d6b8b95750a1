pub mod Places
pub mod Heads
pub mod Fields
pub mod Passing
pub mod Laying
pub mod Halving
pub mod Looking
pub mod WhereIDsRise
