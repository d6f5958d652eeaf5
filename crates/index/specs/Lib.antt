pub mod Home
pub mod Index
pub mod Search
