pub mod Stored
pub mod StoredRuns
