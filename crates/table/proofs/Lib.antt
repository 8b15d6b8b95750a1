pub mod Leaves
pub mod Places
pub mod Lookups
pub mod Chain
pub mod Storing
pub mod Fields
