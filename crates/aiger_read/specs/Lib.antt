pub mod Graph
pub mod Spelling
pub mod Lines
pub mod Text
pub mod Both
pub mod Spelled
pub mod Broken
