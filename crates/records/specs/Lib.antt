pub mod Bytes
pub mod Requests
pub mod Rows
