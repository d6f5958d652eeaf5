pub mod Rooms
pub mod Turn
pub mod Run
