-- The round trips, and what the proofs of several functions and the crates above cite.
pub mod Cases
pub mod Same
pub mod Signed
pub mod Floats
pub mod RoundTrip
pub mod Refusals
