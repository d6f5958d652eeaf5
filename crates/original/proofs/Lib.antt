-- The original against our table: one of our tables as one of the original's, leaves first, and the theorem of demand 2.
pub mod Addresses
pub mod Cells
pub mod Order
pub mod Right
pub mod Sets
pub mod Walks
pub mod Lengths
pub mod Demand2
