pub mod Counting
pub mod SettingUp
mod Returns
