pub mod Storing
pub mod Behind
mod OnSections
pub mod Straight
pub mod Answering
mod Asking
pub mod Kept
