pub mod Says
pub mod Lent
