pub mod Listed
pub mod Fitting
pub mod Numbered
pub mod Places
pub mod Sound
