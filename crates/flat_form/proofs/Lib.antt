pub mod Lists
pub mod Circuits
pub mod Clocks
pub mod PinByPin
pub mod Marks
pub mod Walks
pub mod Loops
pub mod Timeable
