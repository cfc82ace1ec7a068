pub mod Indexed
pub mod Scoped
pub mod Checked
pub mod Linked
pub mod Crossing
pub mod Places
