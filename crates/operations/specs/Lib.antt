pub mod Entries
pub mod Rules
pub mod Cut
pub mod Search
