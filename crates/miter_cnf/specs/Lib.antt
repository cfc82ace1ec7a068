pub mod Variables
pub mod Named
pub mod Fits
pub mod Miter
pub mod Laws
pub mod Circuits
