pub mod Bytes
pub mod Lexemes
pub mod Reads
pub mod Words
pub mod Bare
pub mod Written
pub mod Scan
pub mod Stepping
