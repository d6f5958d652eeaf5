pub mod Turning
pub mod Running
pub mod Whole
