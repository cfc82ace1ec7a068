pub mod Modules
pub mod Names
pub mod Kinds
pub mod Graph
pub mod Reach
pub mod Top
pub mod Duplicates
