pub mod Faces
pub mod Readings
pub mod Outcomes
