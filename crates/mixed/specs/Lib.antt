pub mod Form
pub mod Reading
pub mod Ours
pub mod Reaction
pub mod Replies
pub mod Keeping
pub mod Receiving
pub mod Tables
