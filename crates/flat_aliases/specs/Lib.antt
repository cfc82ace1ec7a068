pub mod Drives
pub mod Threads
pub mod Spreads
pub mod Nets
pub mod Walks
