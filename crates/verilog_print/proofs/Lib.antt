pub mod Written
pub mod Prints
pub mod Adds
pub mod Back
pub mod Braces
pub mod Plain
