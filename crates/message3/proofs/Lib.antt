pub mod Accepted
mod Refusals
mod AllAsked
mod Written
pub mod RoundTrip
pub mod Told
pub mod NeverBoth
pub mod Worked
