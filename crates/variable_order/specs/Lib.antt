pub mod Seats
pub mod Tree
pub mod Kept
