pub mod Meanings
pub mod Ports
pub mod Netlist
