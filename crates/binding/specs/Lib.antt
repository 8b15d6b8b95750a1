pub mod Header
pub mod Counted
pub mod Made
pub mod Cutting
