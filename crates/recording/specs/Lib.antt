pub mod Datagrams
pub mod Play
pub mod Whole
pub mod Decimal
pub mod Places
pub mod Line
pub mod Words
pub mod Opening
