pub mod Shown
pub mod Asked
pub mod Settled
pub mod Signed
pub mod Depths
