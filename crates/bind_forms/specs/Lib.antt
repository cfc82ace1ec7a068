pub mod Bits
pub mod WellFormed
pub mod Modules
pub mod Binds
pub mod Faults
pub mod First
