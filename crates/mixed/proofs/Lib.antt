pub mod Issues
mod Readings
pub mod NoCrossing
pub mod ByByteTwo
mod OursLaws
mod ReactionLaws
pub mod LaidReplies
pub mod ToldLaws
mod Rooms
mod Kept
mod Receipts
pub mod Deeds
pub mod Settling
pub mod AsBefore
mod Calls
mod CallsThree
mod OnTables
