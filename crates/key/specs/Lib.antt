pub mod Canonical
pub mod Manual
pub mod Original
