pub mod HeardWords
pub mod TableCalls
pub mod Within
pub mod SectionCalls
pub mod ServiceCalls
pub mod SendCalls
