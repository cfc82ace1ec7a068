pub mod Measured
pub mod Found
pub mod Begins
