-- The three demands on stores: what the promises say where a store is sound, and from it each demand.
pub mod Demand1
pub mod Demand2
pub mod Demand3
pub mod Events
pub mod Places
pub mod Values
pub mod Walkers
pub mod Hosts
