pub mod Marked
pub mod Readings
pub mod Steps
pub mod Sound
