pub mod Tracing
pub mod Serving
pub mod Waiting
pub mod Ways
pub mod Turns
pub mod Whole
pub mod Example
pub mod Room
