pub mod History
pub mod Walked
