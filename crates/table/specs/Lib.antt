pub mod Values
pub mod Stays
