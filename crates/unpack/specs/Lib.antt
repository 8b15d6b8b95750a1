pub mod Reading
pub mod RunByRun
