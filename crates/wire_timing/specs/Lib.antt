pub mod Wires
pub mod Window
pub mod Reach
