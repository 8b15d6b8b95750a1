pub mod Words
pub mod StateCalls
pub mod HeardWords
pub mod TableCalls
pub mod Within
pub mod SectionCalls
pub mod SendCalls
pub mod PendingCalls
