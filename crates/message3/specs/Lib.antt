pub mod Header
pub mod Platform
pub mod Refusal
pub mod Reading
pub mod Writing
pub mod Worked
