pub mod Words
mod Calling
mod AsTheyLie
mod Giving
mod ByPlans
mod IssueWords
