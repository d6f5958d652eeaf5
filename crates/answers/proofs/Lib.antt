pub mod Requests
pub mod Unique
