pub mod Lists
pub mod Modules
pub mod Placing
pub mod Begun
