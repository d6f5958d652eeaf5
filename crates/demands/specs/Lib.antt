pub mod Refusals
pub mod Calls
pub mod Walks
pub mod Walkers
pub mod Hosts
pub mod Places
