pub mod Returns
pub mod Sends
