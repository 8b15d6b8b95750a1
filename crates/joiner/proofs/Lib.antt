pub mod Places
pub mod Lookups
pub mod Judging
pub mod Standing
pub mod Accepted
pub mod Addressing
pub mod Views
mod Taking
mod Making
pub mod Stored
pub mod Storing
pub mod FoundBack
mod Looks
pub mod ReadBack
pub mod Moving
pub mod WordsBack
mod Calling
