pub mod Leaf
pub mod Layout
pub mod Checked
pub mod Entries
pub mod Words
pub mod Fields
