pub mod PieceCalls
pub mod MessageCalls
pub mod IssueCalls
pub mod TableCalls
pub mod PayloadCalls
pub mod PlanCalls
pub mod Releases
