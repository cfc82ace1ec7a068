pub mod Binding
pub mod Bound
pub mod Groups
pub mod Lines
pub mod Names
pub mod Roles
pub mod Said
