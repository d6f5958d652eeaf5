pub mod Original
pub mod Runs
pub mod Agreement
