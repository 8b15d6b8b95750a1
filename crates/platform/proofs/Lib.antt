pub mod ReplyLaws
pub mod ReadBack
pub mod Silence
pub mod Unchanged
pub mod Unique
pub mod Receipts
pub mod ReactionLaws
mod ResponseLaws
pub mod ReplyBytes
