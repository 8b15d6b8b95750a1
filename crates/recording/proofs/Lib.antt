pub mod Finding
pub mod More
pub mod Playing
pub mod Whole
pub mod Decimals
pub mod Putting
pub mod LineLaws
pub mod StartMore
pub mod Starting
mod Keeping
