pub mod Outcomes
pub mod Growing
pub mod Keyed
pub mod Reserving
pub mod Promises
pub mod Unique
