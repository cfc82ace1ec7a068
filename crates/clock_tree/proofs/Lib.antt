pub mod Routes
pub mod Clocks
pub mod Marking
pub mod Pins
pub mod Backward
pub mod Whole
pub mod OnlyOne
