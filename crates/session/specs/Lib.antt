pub mod Trace
pub mod Served
pub mod Room
pub mod Example
