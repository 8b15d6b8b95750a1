pub mod Heard
pub mod Noting
pub mod Receiving
pub mod Exchange
pub mod Replies
pub mod Reaction
