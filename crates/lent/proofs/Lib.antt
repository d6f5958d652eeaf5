pub mod Says
pub mod Lent
pub mod Put
