-- What the proofs of several functions cite, and the theorems on keys.
pub mod Ratios
pub mod Own
pub mod Equal
pub mod Manual
pub mod Original
