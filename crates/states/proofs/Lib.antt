pub mod Bits
pub mod Ups
mod WordLaws
