pub mod Text
pub mod Parts
pub mod Number
pub mod Reading
pub mod Laws
pub mod Spelled
