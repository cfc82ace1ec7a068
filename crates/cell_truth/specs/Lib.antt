pub mod Clause
pub mod Truth
