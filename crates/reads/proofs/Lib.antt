-- The laws of the calls that read, leaves first.
pub mod Keys
pub mod Walking
pub mod Halving
pub mod Rounds
pub mod Lengths
pub mod Unique
