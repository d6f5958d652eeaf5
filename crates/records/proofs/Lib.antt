pub mod Numbers
pub mod Ways
pub mod Readings
pub mod RoundTrip
pub mod Rows
