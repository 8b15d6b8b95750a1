pub mod Accepted
mod Answers
pub mod Refusals
pub mod RoundTrip
mod Readings
mod Messages
pub mod Written
mod WriteRefusals
