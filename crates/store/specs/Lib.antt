pub mod Limits
pub mod Store
pub mod Shape
pub mod Written
pub mod Clauses
pub mod Fresh
