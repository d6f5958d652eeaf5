pub mod Marks
pub mod Tasks
