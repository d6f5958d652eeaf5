pub mod Tally
pub mod Steps
pub mod Turns
pub mod Ranges
pub mod Best
pub mod Candidates
