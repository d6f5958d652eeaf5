pub mod Views
pub mod Sound
pub mod Unique
pub mod Power
pub mod Puts
pub mod Keys
pub mod Sized
