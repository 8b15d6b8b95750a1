pub mod Headers
mod Reading
mod Examples
pub mod Cutting
mod Cuts
mod CutExamples
