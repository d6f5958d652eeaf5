pub mod Writes
pub mod Roads
