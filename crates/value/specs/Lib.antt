pub mod Refusals
pub mod Encoding
pub mod Same
