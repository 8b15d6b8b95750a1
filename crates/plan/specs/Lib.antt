pub mod Leaves
pub mod Layout
pub mod Length
pub mod Members
pub mod Laying
