-- The laws of the table, leaves first, and its theorems.
pub mod Entries
pub mod Places
pub mod Array
pub mod Size
pub mod Map
pub mod Kept
pub mod Refusals
pub mod Settles
pub mod Next
pub mod Meaning
pub mod Border
pub mod Rows
