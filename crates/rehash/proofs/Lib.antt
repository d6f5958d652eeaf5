pub mod Turns
pub mod Moved
pub mod Outcome
