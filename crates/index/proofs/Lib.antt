pub mod Home
pub mod Used
pub mod Climb
pub mod Insert
pub mod Searches
pub mod Seats
